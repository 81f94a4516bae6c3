pub mod StatementPoints
pub mod Origins
