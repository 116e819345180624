mod Reviewing
