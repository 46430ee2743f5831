pub mod AllDue
pub mod FewListed
pub mod Lawful
pub mod OneDue
pub mod Outcomes
pub mod Results
pub mod Walking
