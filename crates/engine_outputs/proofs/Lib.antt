pub mod OutputPass
