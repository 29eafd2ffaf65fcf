pub mod PieceSteps
