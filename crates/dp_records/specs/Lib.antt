pub mod DataFaults
pub mod PackedTexts
pub mod RawRecords
pub mod RecordLaws
pub mod Records
pub mod TextReader
