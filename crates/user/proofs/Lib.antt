mod Latin1
