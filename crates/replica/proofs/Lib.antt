mod Options
mod Moments
mod Txns
mod Pieces
mod Accepted
mod Logs
