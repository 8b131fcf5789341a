pub mod Names
pub mod Parts
pub mod RosNames
pub mod Table
