pub mod Ending
pub mod Agreement
pub mod Front
pub mod Texts
pub mod Offered
pub mod Written
pub mod Growth
pub mod ReadBack
