-- What the playback program puts out is the text of the whole archive, however its reads cut it.
pub mod Lines
pub mod Progress
pub mod Pieces
