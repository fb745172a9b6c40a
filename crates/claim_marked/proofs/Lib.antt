pub mod MarkedFigures
