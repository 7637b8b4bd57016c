mod Lining
mod Reporting
mod Uniqueness
