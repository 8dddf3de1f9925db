-- How the tests of each operation, and of each call from another language, can end: with which refusals, and what is
-- known there of what was lent; a file for each operation, and for what several share. Q is any property of refusals;
-- from what each test of an order leaves to be shown, whatever the tests answer has it.
pub mod Table
pub mod Taps
pub mod Trace
pub mod Prepare
pub mod Hash
pub mod Chain
pub mod Build
pub mod Check
pub mod ReadOff
pub mod Edit
pub mod Unhash
pub mod Pack
pub mod Full
pub mod Short
pub mod Edition
pub mod Unpack
pub mod UnpackShort
pub mod ToShort
pub mod ToFull
