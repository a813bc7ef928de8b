mod Zipped
