pub mod Sound
pub mod SoundSigned
