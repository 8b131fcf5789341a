pub mod Offered
pub mod SetBits
pub mod RangeBits
pub mod NumberOrder
