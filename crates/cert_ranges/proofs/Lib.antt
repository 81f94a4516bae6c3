mod Ranges
mod NetworkRanges
