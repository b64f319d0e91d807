mod Pushed
mod Settled
mod Crashed
mod Outcomes
mod Rising
mod Listed
mod Torn
