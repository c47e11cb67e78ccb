pub mod Laws
pub mod Lines
pub mod Names
pub mod PartialLine
pub mod Places
pub mod ScannerState
pub mod TextLine
