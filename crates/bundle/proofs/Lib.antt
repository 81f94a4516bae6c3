mod CertifiedParts
mod Feeds
mod LineEnds
mod Lines
mod Positions
mod Separators
mod Worked
