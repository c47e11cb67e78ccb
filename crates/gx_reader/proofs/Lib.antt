mod Resume
