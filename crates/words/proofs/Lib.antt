mod Digits
mod InTurn
