mod Splits
mod Worked
