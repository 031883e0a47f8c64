pub mod ByNumber
pub mod Asked
pub mod CaseRows
pub mod View
