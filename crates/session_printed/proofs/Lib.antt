pub mod PiecePrinted
