mod Apart
mod Ascii
mod Cutting
mod Numerals
