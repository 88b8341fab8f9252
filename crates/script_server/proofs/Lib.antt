mod Reading
mod Served
mod Answering
mod Opening
mod Settled
