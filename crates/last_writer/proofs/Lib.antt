pub mod RootContexts
pub mod StatementWrites
pub mod WriterLists
pub mod JointTrees
pub mod ReadClass
pub mod QuotientWrites
pub mod Whole
