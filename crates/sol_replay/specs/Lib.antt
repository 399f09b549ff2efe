pub mod Replays
