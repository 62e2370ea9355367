pub mod OneWrong
