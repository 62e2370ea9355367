mod OneWrong
