mod Shuffling
