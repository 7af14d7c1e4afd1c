pub mod Said
pub mod Expected
pub mod Grammar
pub mod Cases
pub mod Situations
pub mod Spelling
