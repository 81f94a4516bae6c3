pub mod AnswerContexts
pub mod Lists
mod RowReach
mod Rows
pub mod ProblemBounds
pub mod NoSystems
pub mod TestForms
pub mod TestNodes
mod MadeRows
mod WriteSystems
pub mod SystemConversion
mod Subscript
mod NoWrites
mod LevelOrders
mod EuclidSteps
mod CommonDivisors
mod RoundedRows
mod NeverMultiple
mod AlwaysMultiple
mod NeverDivided
mod AlwaysDivided
mod LastRows
mod DomainDifferences
mod YesContexts
pub mod TestCounts
pub mod QuotientProblem
mod Quotients
mod LastCells
mod SourceCuts
mod QuotientReach
mod PlaceProofs
pub mod LeafConversion
mod QuotientValues
mod TreeValues
mod CandidatePromise
mod ProofConversion
pub mod ReadBounds
pub mod Below
pub mod WriterTests
mod LevelCounts
mod ProofSteps
mod OrderSteps
mod WriterSteps
mod FactLeaves
mod TreeConversion
mod WriterLeaves
mod Opens
mod Alone
