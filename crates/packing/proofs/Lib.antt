mod Same
mod Forms
mod Failures
mod Packs
