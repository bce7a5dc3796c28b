mod Common
mod BitsWalkLemmas
mod BitsPlayLemmas
mod FileReplayLemmas
mod RepackLemmas
mod Lemmas
