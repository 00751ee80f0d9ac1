pub mod FreeDigits
