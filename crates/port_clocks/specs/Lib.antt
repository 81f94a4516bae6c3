pub mod PortClocks
