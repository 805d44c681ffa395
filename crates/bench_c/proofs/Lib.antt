mod Rewritten
