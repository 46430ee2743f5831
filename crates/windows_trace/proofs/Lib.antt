pub mod PutLines
pub mod FewEdges
pub mod InHours
pub mod ListedEdges
pub mod ReadBack
