pub mod ListText
pub mod ReportText
pub mod SampleText
pub mod ShowText
pub mod WhyText
