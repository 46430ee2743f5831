pub mod FirstReady
