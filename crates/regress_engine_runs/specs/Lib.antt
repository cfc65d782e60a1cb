pub mod States
pub mod Runs
pub mod Computed
pub mod Meets
pub mod Closed
pub mod Stand
pub mod UndoStack
pub mod Items
