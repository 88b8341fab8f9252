mod Calling
mod Cases
mod Giving
mod Numbers
mod Opening
mod Values
