mod Doubts
mod Walking
mod Walks
