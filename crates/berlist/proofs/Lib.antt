mod Listing
mod Gathering
mod Requests
mod Digits
