mod Came
mod Own
mod Walk
