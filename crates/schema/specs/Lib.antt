pub mod Texts
pub mod Schema
pub mod Shape
pub mod CountedElements
pub mod AtFault
pub mod Table
pub mod View
