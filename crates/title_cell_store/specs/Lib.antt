pub mod CellMaps
