pub mod SignTables
