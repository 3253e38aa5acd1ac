mod Digits
mod Middle
