-- Which call a request stands for.
pub mod Requests
