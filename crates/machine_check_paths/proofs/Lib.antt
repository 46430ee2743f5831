pub mod ScanLaws
pub mod StepLaws
