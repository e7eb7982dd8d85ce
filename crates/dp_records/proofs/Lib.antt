pub mod CutCells
pub mod PackedPlaces
pub mod ReaderSteps
pub mod RowCells
pub mod ShelfRest
