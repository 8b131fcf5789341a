pub mod SafeText
pub mod ChartEntries
pub mod ChartRoom
pub mod ChartTimes
pub mod Joining
pub mod Origin
pub mod Page
