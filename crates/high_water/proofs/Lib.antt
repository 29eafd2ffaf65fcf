mod Bounds
mod Token
mod Walks
