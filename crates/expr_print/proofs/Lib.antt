pub mod FieldTexts
