pub mod FirstOfShape
