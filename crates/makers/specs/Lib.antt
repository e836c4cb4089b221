-- CR 6: the makers' lists, and a maker's register requests.
pub mod Lists
pub mod Requests
pub mod Laws
