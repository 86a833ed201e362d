pub mod CheckpointLaws
